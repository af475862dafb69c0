pub mod CsvLemmas
pub mod CsvPrintLemmas
pub mod JsonPickLemmas
pub mod JsonPrintLemmas
pub mod OwnedLemmas
pub mod PrintLemmas
