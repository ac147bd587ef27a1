pub mod StoreLaws
pub mod Laws
