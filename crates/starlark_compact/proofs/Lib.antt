mod AddsLemmas
mod AnswerLemmas
mod Nodes
mod Statements
