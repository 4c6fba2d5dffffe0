-- What can be asked of a magnetic symbol's text and of a magnetic record, and that the answers can be packed.
pub mod FlaggedNumbers
pub mod MagneticBounds
pub mod MagneticQuestions
pub mod MagneticRecordBounds
