-- What the tracer promises.
pub mod Says
