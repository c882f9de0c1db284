pub mod LogSizes
