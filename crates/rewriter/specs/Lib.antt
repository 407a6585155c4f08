pub mod Rewriter
