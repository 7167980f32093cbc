pub mod SentReadings
