pub mod Sum
pub mod Test
pub mod FirstFailing
