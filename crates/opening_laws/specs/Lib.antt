pub mod ReadLakes
