pub mod Rolling
