pub mod HostLaws
pub mod Host
