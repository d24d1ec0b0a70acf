-- What the functions that put bytes promise of the buffer that they were lent.
pub mod Room
