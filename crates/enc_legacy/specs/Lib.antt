pub mod Singles
pub mod SinglesCalm
pub mod ShiftJis
pub mod EucJpState
pub mod Iso2022State
