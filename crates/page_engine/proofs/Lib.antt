pub mod CodeLemmas
