-- The definitions of `weighpick_c`.
pub mod Version
