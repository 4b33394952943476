pub mod Completeness
pub mod Soundness
pub mod HidingMap
pub mod Findings
pub mod Deciding
