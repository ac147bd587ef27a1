pub mod PutLaws
pub mod RunLaws
pub mod TextLaws
pub mod LineLaws
pub mod LinesLaws
pub mod ReportLaws
