pub mod FoundLaws
pub mod MethodLaws
pub mod ParamLaws
pub mod SpanLaws
