pub mod Ends
pub mod Goes
