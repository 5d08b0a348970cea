-- Where the code of plain IP meets the definitions.
pub mod CodeLaws
