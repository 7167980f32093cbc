pub mod GivenNumbers
pub mod ReadableLakes
