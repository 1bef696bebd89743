-- What private contracts alone speak of.
pub mod Reading
pub mod ReadingList
pub mod ReadingDepth
pub mod ReadingExpression
pub mod ExpressionView
pub mod ReadingSpawn
pub mod ReadingSimple
pub mod ReadingNested
pub mod ReadingStatement
pub mod ReadingResources
pub mod ReadingOptions
pub mod ReadingBodies
pub mod ReadingDeclaration
pub mod DeclarationView
pub mod Fault
