pub mod Answered
pub mod Found
pub mod Lists
pub mod Written
