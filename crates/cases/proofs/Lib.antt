-- Laws of what the programs that answer cases share
pub mod PartLaws
pub mod FillLaws
pub mod DigestLaws
