pub mod Leads
pub mod MemberPhrases
pub mod Noted
pub mod Routines
pub mod ScriptLengths
pub mod TopPhrases
pub mod Whole
