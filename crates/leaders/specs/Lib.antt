-- Circuits that leave out pictures which do not lead.
pub mod Leading
pub mod Breaking
