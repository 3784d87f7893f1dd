-- Inside: what the contracts of inner functions cite. There is nothing here to believe.
pub mod Inner
