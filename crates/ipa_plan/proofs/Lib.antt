pub mod Naming
pub mod Listing
pub mod Living
pub mod Whole
pub mod PlanLaws
pub mod Arguments
pub mod Plannable
pub mod ExampleLaws
