pub mod Chains
pub mod Fitted
pub mod SideChain
pub mod HeldBack
pub mod Unheld
pub mod Examples
