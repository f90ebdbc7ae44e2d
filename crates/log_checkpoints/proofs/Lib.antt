pub mod ReceiptTexts
mod OneReading
mod HeldKeys
mod Denying
mod Choosing
