pub mod AnswerFiles
