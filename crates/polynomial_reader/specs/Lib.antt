pub mod Automaton
pub mod Reading
