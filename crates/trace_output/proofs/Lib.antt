pub mod PrintingLaws
