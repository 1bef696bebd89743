-- What serves the tables that the code keeps, which no caller sees.
pub mod Found
pub mod Made
