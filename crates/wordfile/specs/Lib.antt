-- The form of a word file, the request in it, the file of a request, and what the entries promise.
pub mod Form
pub mod File
pub mod Says
