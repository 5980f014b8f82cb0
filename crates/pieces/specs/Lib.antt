-- What the contracts of `pieces` cite besides the definitions of the encoding, and the laws of it.
pub mod Cursors
pub mod CursorsLaws
pub mod Judged
pub mod JudgedLaws
pub mod Puts
pub mod PutsLaws
pub mod Pieces
pub mod PiecesLaws
