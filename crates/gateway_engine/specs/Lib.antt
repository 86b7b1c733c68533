pub use Rattle.tus_session.specs.Images
pub use Rattle.tus_session.specs.Connections
pub use Rattle.gateway_script.specs.Script
pub use Rattle.gateway_script.specs.Outputs
pub mod Gateways
pub mod Ran
pub mod RanOn
pub mod RanFrom
