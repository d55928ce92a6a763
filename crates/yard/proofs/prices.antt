-- Laws of prices.
pub mod PriceDoubles
pub mod Price
