pub mod Numbers
pub mod FormLaws
pub mod GoingOn
