pub mod Lists
pub mod Numbers
pub mod Printed
