pub mod Configs
