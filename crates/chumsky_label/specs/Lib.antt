pub mod Labelled
pub mod LabelledLaws
pub mod Labelling
pub mod RichLabel
pub mod LabelledLanguage
