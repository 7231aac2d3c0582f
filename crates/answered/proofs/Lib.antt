pub mod Move
