pub mod SureRuns
