pub mod FreshLakes
