pub mod ByteMapLemmas
pub mod LendsLemmas
pub mod RowsLemmas
pub mod ValuesLemmas
