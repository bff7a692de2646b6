-- answers, from what the searches found
pub mod Answering
