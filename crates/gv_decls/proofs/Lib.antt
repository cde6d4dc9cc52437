pub mod Declarations
pub mod Filled
pub mod ParamPhrases
pub mod PlainStmts
