-- The laws of the written meaning, by topic; the demands themselves stand in Demands and CardDemands.
pub mod general
pub mod yards
pub mod calls
pub mod cards
pub mod prices
pub mod Demands
pub mod CardDemands
pub mod Trials
