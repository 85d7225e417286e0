pub mod Prolog
