pub mod Bodies
pub mod Contents
pub mod Modules
pub mod Passed
pub mod SectionLists
pub mod Texts
