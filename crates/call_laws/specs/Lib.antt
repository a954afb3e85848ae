pub mod HostAsks
