-- What contracts cite of items in a list, besides the yard's written meaning.
pub mod Front
pub mod Found
