pub mod Leading
pub mod TextRun
pub mod TextRunLaws
pub mod TextLanguage
pub mod TextLanguageLaws
pub mod Names
pub mod Decimals
