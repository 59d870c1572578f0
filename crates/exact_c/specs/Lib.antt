-- What a caller by C's calling convention is answered, and what its lent places hold afterwards.
pub mod Lent
