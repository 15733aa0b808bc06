pub mod TestedFunction
