pub mod LinkRows
