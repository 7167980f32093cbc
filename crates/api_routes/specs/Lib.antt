pub mod ApiPaths
pub mod ExpressionTexts
pub mod FormNames
pub mod FormSteps
pub mod PathSegments
pub mod Queries
pub mod RouteTable
