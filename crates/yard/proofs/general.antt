-- Laws of tests, numbers, lists and searches, which know nothing of yards.
pub mod Limits
pub mod Bools
pub mod Numbers
pub mod First
pub mod Lists
pub mod Order
pub mod Fronts
