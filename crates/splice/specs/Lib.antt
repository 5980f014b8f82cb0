-- A message with the bytes of one optional exchanged, as the code puts it.
pub mod Spliced
pub mod SplicedLaws
